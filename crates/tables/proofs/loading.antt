-- Laws of the loading: the tables with a command more (Tables), the place that a filling has come to (Filling), what records say of the
-- tables (Records), what a command needs to be taken (Taking), a turn of the filling through records (Turns). For callers: the tables that
-- `load` filled (Loaded).
pub mod Tables
pub mod Marks
pub mod Filling
pub mod Loaded
pub mod Records
pub mod Turns
pub mod Taking
