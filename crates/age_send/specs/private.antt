-- What private functions compute. No public clause cites it, and nothing here has to be believed.

-- one roll and two, without the stanza behind them
pub mod Rolling
