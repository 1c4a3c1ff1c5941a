-- What the operating system is told, and what its answers say.
use Rattle.std.specs.Prelude.{◌≡◌, ◌==◌, ℕ, Bool, true, false, Result, Ok, Err, if◌then◌else◌}
use Rattle.std.specs.IoError.{error_kind}
use Rattle.std.specs.Net.Addr.{ipv4_bits}
use Rattle.std.specs.Net.Socket.{v4_ip, v4_port}
use Rattle.std.specs.declared.net.socket_addr.SocketAddr.{SocketAddr}
use Rattle.std.specs.declared.net.socket_addr.SocketAddr.TheVariants.{V4, V6}
use Rattle.std.specs.declared.io.Error.{Error}
use Rattle.std.specs.declared.io.ErrorKind.{ErrorKind}
use Rattle.std.specs.declared.io.ErrorKind.TheVariants.{WouldBlock, Interrupted}
use Rattle.mesh_atoms.specs.declared.addr.Endpoint.{Endpoint}
use Rattle.mesh_io.specs.declared.airs.Ear.{Ear}
use Rattle.mesh_io.specs.declared.airs.Ear.TheVariants as ear
use Rattle.mesh_io.specs.declared.airs.Sent.{Sent}
use Rattle.mesh_io.specs.declared.airs.Sent.TheVariants as sent

-- the address is one of IPv4, and has the endpoint's number and port
abbrev pub IsAddressOf : SocketAddr → Endpoint → Type 0
IsAddressOf (V4 address) endpoint = (ipv4_bits (v4_ip address) ≡ endpoint.addr.0) × (v4_port address ≡ endpoint.port)
IsAddressOf (V6 address) endpoint = ⊥

-- a socket that never waits had no frame
abbrev pub is_silence : ErrorKind → Bool
is_silence WouldBlock = true
is_silence Interrupted = true
is_silence _ = false

-- what was heard: a frame of that length and of that sender, where it is one of IPv4; nothing, or a fault
abbrev pub ear_of : Result (ℕ × SocketAddr) Error → Ear
ear_of (Ok (len, V4 address)) = ear.Frame len (record { 0 = ipv4_bits (v4_ip address) })
ear_of (Ok (len, V6 address)) = ear.Failed
ear_of (Err e) = if is_silence (error_kind e) then ear.Silence else ear.Failed

-- what is answered to a frame of that length: that it was sent, where all its octets were taken
abbrev pub sent_of : Result ℕ Error → ℕ → Sent
sent_of (Ok count) len = if count == len then sent.Done else sent.Failed
sent_of (Err e) len = sent.Failed
