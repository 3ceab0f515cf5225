pub mod frozen_views
