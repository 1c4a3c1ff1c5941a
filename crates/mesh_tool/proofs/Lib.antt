mod AnswersLemmas
mod JobsLemmas
mod WordsLemmas
mod Common
