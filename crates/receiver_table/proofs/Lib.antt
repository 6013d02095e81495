pub mod FileOctets
