pub mod NodeNumbers
pub mod SegmentCells
pub mod UpperCoefficients
