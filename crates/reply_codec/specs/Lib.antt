pub mod CodecRows
