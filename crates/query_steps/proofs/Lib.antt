pub mod FusedSteps
