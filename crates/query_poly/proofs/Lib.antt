pub mod GeneralLoop
