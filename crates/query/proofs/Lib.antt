pub mod NumberAndBuffers
