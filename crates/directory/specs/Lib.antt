pub mod Name
pub mod NameLaws
pub mod Directory
pub mod DirectoryLaws
