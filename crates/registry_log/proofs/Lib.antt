mod ColumnFacts
mod TargetFacts
mod MaskFacts
mod EndFacts
mod NoteFacts
mod KnownFacts
