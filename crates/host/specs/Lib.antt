-- What C is handed for every answer.
pub mod Answers
