pub mod CashOnly
