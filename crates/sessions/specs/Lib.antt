pub mod Refusals
pub mod Texts
pub mod Agendas
pub mod Worlds
pub mod Steps
pub mod Histories
pub mod Numbers
pub mod Promises
