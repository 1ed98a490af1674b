-- Lemmas on words of any width.
pub mod Words
