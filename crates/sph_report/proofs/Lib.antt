mod CheckLines
mod DeckTrees
mod SignedSums
mod SummaryTexts
mod TreeTexts
