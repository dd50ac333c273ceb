mod WordLemmas
mod FormLemmas
mod LineLemmas
