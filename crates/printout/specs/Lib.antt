-- What the program prints: `Text` (its lines), `Written` (text in a buffer), `Weeks` (the problem of a week), `Program` (the text for a file).
pub mod Text
pub mod Written
pub mod Weeks
pub mod Program
