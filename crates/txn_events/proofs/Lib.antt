pub mod EventRows
pub mod AnswerLemmas
pub mod TimerLemmas
