pub mod SegmentPart
pub mod SegmentSays
