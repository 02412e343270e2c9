pub mod CellReads
pub mod RowLemmas
pub mod NoteReads
pub mod StepLemmas
pub mod OwnSlots
