pub mod FamilyMarks
pub mod FamilyShape
