-- Laws of running packets through a core.
pub mod MaskLaws
pub mod PacketLaws
pub mod FrameLaws
pub mod PassLaws
pub mod RunLaws
pub mod Meaning
