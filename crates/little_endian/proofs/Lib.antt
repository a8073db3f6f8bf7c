-- The laws of numbers in bytes.

-- numbers byte by byte, and in parts of a longer list (`unsigned_part`); what is written reads back (`unsigned-bytes_of`)
pub mod LittleEndian
-- numbers below 0: what is written reads back where it fits its field (`signed_back`)
pub mod TwosComplement
-- what `to_le_bytes` gives of a number that a program holds (`u16_bytes`, `u32_bytes`, `i32_bytes`, `i64_bytes`, `cast_bytes`)
pub mod ToBytes
-- bytes written over others: pieces that stand behind each other are one piece (`over-over`, `behind_it`)
pub mod Over
-- a header and two lists of rows: how long they are (`length_report`), and where a field is read (`in_header`, `in_first`, `in_second`)
pub mod Report
