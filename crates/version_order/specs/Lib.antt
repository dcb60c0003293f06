pub mod Vector
pub mod VectorLaws
pub mod Plan
pub mod PlanLaws
pub mod Structure
pub mod StructureLaws
