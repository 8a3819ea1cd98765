pub mod Kr
pub mod Multiplexing
pub mod Demultiplexing
pub mod Laws
pub mod Packing
pub mod Unpacking
pub mod PcapCommand
