-- Numbers in bytes.

-- little-endian numbers, read and written
pub mod LittleEndian
-- bytes written over others
pub mod Over
