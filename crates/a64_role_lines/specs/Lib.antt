pub mod Words
pub mod RoleLines
