pub mod JoinLemmas
