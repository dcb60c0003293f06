pub mod Numbers
pub mod EffectLaws
pub mod TableLaws
pub mod TableStands
pub mod VoidLaws
