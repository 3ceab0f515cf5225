pub mod RoundTrip
pub mod below
