pub mod BlockLaws
mod WholeTexts
mod MoveLaws
