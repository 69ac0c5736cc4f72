-- The value rules.
pub mod ValueRules
pub mod ValueVectors
pub mod ValidityOrder
