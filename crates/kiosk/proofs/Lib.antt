-- Laws of the kiosk's words, and of the call that fills them.
pub mod Filled
pub mod Same
