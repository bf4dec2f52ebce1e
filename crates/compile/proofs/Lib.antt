pub mod WalkLaws
pub mod MemoLaws
pub mod TurnLaws
pub mod TopLaws
pub mod PackLaws
