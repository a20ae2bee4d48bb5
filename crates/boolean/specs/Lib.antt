pub mod Bool
