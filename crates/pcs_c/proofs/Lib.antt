mod Lines
mod Pads
mod SymbolsIn
