pub mod BareFacts
