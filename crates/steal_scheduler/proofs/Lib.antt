mod Rules
mod Lists
mod Made
mod Common
