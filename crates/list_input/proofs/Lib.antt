pub mod Printed
pub mod TextLaws
