-- What `mw_wire` offers, for the crates above.
pub use Rattle.mw_server_socket.specs.mw_wire.Failures
