-- What the public calls promise: `Replies` (what each answer means), `Refusals` (when a call is refused), `Calls` (the calls that make an
-- answer), `Postconditions` (one record for each call),
-- `Kiosk` (the same for nodes lent as triples); and document 01's `Examples`.
pub mod Replies
pub mod Refusals
pub mod Calls
pub mod Postconditions
pub mod Examples
pub mod Kiosk
