pub mod FreshPages
