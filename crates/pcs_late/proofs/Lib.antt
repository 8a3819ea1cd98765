pub mod KrLemmas
pub mod Muxed
pub mod Demuxed
pub mod Carried
pub mod Packed
pub mod Unpacked
pub mod FilesDecide
pub mod WholeFiles
