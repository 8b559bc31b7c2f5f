pub mod LegLemmas
pub mod PlanLemmas
