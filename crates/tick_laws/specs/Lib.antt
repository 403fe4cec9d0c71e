pub mod TickLaws
