pub mod Change
pub mod ChangeLaws
pub mod Cert
pub mod CertLaws
pub mod World
pub mod Reading
pub mod Tables
pub mod TableVoids
