pub mod ToldTexts
pub mod AnswerTexts
