mod CheckFacts
mod CopyFacts
mod LineFacts
