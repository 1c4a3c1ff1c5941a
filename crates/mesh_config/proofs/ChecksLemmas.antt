pub mod JoinLaws
pub mod Links
