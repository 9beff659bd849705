pub mod RunsFresh
pub mod ValueLaws
