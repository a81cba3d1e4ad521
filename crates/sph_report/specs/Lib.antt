pub use Rattle.sph_deck.specs.Keys
pub mod DeckLines
pub mod CheckLine
pub mod TreeLines
pub mod SummaryLine
pub mod WordsLines
