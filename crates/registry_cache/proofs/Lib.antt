pub mod CacheFacts
pub mod OnceFacts
pub mod PrefixFacts
pub mod NamedFacts
pub mod RightFacts
