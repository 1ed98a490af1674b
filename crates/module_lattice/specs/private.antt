-- products of pairs are polynomials
pub mod PairLaws
