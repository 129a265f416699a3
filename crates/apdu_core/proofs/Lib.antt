mod ByteFacts
mod CommandForms
mod CommandFacts
mod ChainLemmas
mod ListFacts
mod PieceLemmas
mod PieceFacts
mod Vectors
