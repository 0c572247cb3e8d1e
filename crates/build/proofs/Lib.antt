pub mod InputKnown
