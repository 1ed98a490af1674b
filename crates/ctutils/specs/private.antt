-- equalities that agree
pub mod Agreement
-- the equality of options is an equivalence
pub mod OptionLaws
